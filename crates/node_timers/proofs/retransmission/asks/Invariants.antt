use Rattle.std.proofs.Common.{◌≡◌, drop}
use Rattle.node_timers.specs.Retransmission.{asks}
use Rattle.node_timers.proofs.retransmission.asks.Given as goal

abbrev pub invariant-loop-repeat : goal.invariant-loop-repeat
invariant-loop-repeat l = asks (drop l.repeat-index l.repeats) ≡ asks l.fn.repeats
