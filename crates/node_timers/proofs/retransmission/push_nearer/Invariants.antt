use Rattle.std.proofs.Common.{◌≡◌, ◌++◌, drop, map}
use Rattle.node_timers.specs.Retransmission.{nearer}
use Rattle.node_timers.proofs.retransmission.push_nearer.Given as goal

abbrev pub invariant-loop-repeat : goal.invariant-loop-repeat
invariant-loop-repeat l = l.into.items ++ map nearer (drop l.repeat-index l.repeats) ≡ l.fn.into.items ++ map nearer l.repeats
