use Rattle.std.proofs.Common.{◌∙◌, sym}
use Rattle.command_line.proofs.label.owner_of.Goals as goal

pub returns-in-Some-machine_of-clause-leases : goal.returns-in-Some-machine_of-clause-leases
returns-in-Some-machine_of-clause-leases c = λ machine. (
  (λ same. c.in-Some.is ∙ (c.machine_of.ensures machine).0 (c.in-Some-machine_of.is ∙ cc same)),
  (λ is. cc (c.in-Some-machine_of.is, (c.machine_of.ensures machine).1 (sym c.in-Some.is ∙ is))),
)

pub returns-in_default-machine_of-clause-leases : goal.returns-in_default-machine_of-clause-leases
returns-in_default-machine_of-clause-leases c = λ machine. (
  (λ same. cc same),
  (λ is. cc (c.in_default-machine_of.is, (c.machine_of.ensures machine).1 (sym c.in-Some.is ∙ is))),
)
