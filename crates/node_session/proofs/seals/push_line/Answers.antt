use Rattle.std.proofs.Common.{rules, ◌++◌, ◌∙◌, sym, ap, List, ℕ, Option}
use Rattle.std.proofs.lemmas.Result.{on_ok_weaker}
use Rattle.node_session.specs.Seals.{key_to, message_in}
use Rattle.node_session.proofs.Sealings.{line_so}
use Rattle.node_session.proofs.seals.push_line.Goals as goal

pub returns-clause-text : goal.returns-clause-text
returns-clause-text c =
    on_ok_weaker c.push_sealed.result
    (λ said. said ∙ ap (λ (x : List ℕ). c.args.text.now.items
    ++ x) (sym (line_so c.args.keys.now c.args.life c.in-Some.life c.args.number.now c.in-Some-checked_add.next c.args.line.now
    (message_in c.args.line.now)
    c.read_message.new.bytes.items c.key_to-key.result.now (search rules) (search rules) (search rules)
    (c.key_to-key.ensures ∙ ap (λ (to : Option ℕ). key_to c.args.keys.now to) c.receiver.ensures))))
    c.push_sealed.ensures
