use Rattle.std.proofs.Common.{◌∙◌, sym}
use Rattle.safe_cell.proofs.mounting.read_slot.Goals as goal

pub returns-in-Ok-None-clause-read : goal.returns-in-Ok-None-clause-read
returns-in-Ok-None-clause-read g c = λ honest. sym (c.in-Ok-None.ensures.content honest) ∙ c.in-Ok-None.field-0-is

pub returns-in-None-clause-damaged : goal.returns-in-None-clause-damaged
returns-in-None-clause-damaged g c = λ honest _.
    (c.in-Ok-Some.body, sym (c.in-Ok-Some.ensures.content honest) ∙ c.in-Ok-Some.field-0-is, sym c.value_in.ensures ∙ c.in-None.is)

pub returns-in-Some-clause-read : goal.returns-in-Some-clause-read
returns-in-Some-clause-read g c = λ honest.
    (c.in-Ok-Some.body, sym (c.in-Ok-Some.ensures.content honest) ∙ c.in-Ok-Some.field-0-is, sym c.value_in.ensures ∙ c.in-Some.is)
