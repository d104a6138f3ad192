use Rattle.std.proofs.Common.{◌≡◌}
use Rattle.node_timers.specs.Policy.{has_silent}
use Rattle.node_timers.proofs.timer_policy.TimerPolicy.has_silent.Given as goal

abbrev pub invariant-loop-id : goal.invariant-loop-id
invariant-loop-id l = has_silent l.fn.self l.id-iterator ≡ has_silent l.fn.self l.fn.members
