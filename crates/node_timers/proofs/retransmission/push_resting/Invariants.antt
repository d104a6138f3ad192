use Rattle.std.proofs.Common.{◌≡◌, ◌++◌, drop, map}
use Rattle.std.specs.List.{filter}
use Rattle.node_timers.specs.Retransmission.{is_resting, nearer}
use Rattle.node_timers.proofs.retransmission.push_resting.Given as goal

abbrev pub invariant-loop-repeat : goal.invariant-loop-repeat
invariant-loop-repeat l = l.into.items ++ map nearer (filter is_resting (drop l.repeat-index l.repeats))
    ≡ l.fn.into.items ++ map nearer (filter is_resting l.repeats)
