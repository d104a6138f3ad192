use Rattle.std.proofs.Common.{◌≡◌, ◌++◌, drop, map}
use Rattle.node_timers.specs.Retransmission.{rested}
use Rattle.node_timers.proofs.retransmission.push_rested.Given as goal

abbrev pub invariant-loop-repeat : goal.invariant-loop-repeat
invariant-loop-repeat l = l.into.items ++ map rested (drop l.repeat-index l.repeats) ≡ l.fn.into.items ++ map rested l.repeats
