use Rattle.std.proofs.Common.{arith}
use Rattle.wire_msg.proofs.Lengths.{short_body, length-with_priority}
use Rattle.wire_msg.proofs.laws.limits.Goals as goal

pub returns-clause-body : goal.returns-clause-body
returns-clause-body c = λ m fits. short_body m.body fits.body

pub returns-clause-reached : goal.returns-clause-reached
returns-clause-reached c = λ g id work len other. omega (arith, length-with_priority g id work other, len)
