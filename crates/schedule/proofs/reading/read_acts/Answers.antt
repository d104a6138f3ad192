use Rattle.std.proofs.Common.{rules, ◌≡◌, ap, sym, ◌∙◌, length, [], ◌∷◌}
use Rattle.line_words.specs.Lines.{lines_of}
use Rattle.schedule.specs.Text.{acts_from, behind}
use Rattle.schedule.proofs.Behind.{behind_last}
use Rattle.schedule.proofs.reading.read_acts.Goals as goal

pub returns-clause-ok : goal.returns-clause-ok
returns-clause-ok c =
    let last : lines_of c.loop-line.left.now ≡ c.loop-line.left.now ∷ [] = search rules in
    sym c.loop-line.invariant.rest_read ∙ (ap (λ ls. behind c.loop-line.acts.items
    (acts_from c.loop-line.number (length c.loop-line.acts.items) ls)) last
    ∙ behind_last c.loop-line.number c.loop-line.acts.items c.read_act-2.new.acts.items c.loop-line.left.now (search rules))
