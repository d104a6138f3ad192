use Rattle.std.proofs.Common.{◌∷◌, ◌∙◌, sym, ap, List, ℕ}
use Rattle.command_line.specs.Keys.{secrets_of}
use Rattle.command_line.proofs.Texts.{too_many}
use Rattle.command_line.proofs.keys.secrets_in.Goals as goal

pub returns-in_default-rest : goal.returns-in_default-rest
returns-in_default-rest c =
    sym (ap secrets_of (c.in-Some.ensures.lines ∙ ap (λ (lines : List (List ℕ)). c.in-Some.first.now ∷ lines)
    c.in-Some-cut_line.ensures.lines)
    ∙ too_many c.in-Some.first.now c.in-Some-cut_line.second.now c.in-Some-cut_line.rest.now c.in_default-rest.len_at_least)
