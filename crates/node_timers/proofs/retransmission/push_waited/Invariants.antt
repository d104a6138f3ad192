use Rattle.std.proofs.Common.{◌≡◌, ◌++◌, drop, map}
use Rattle.std.specs.List.{filter}
use Rattle.node_core.specs.State.{state_of}
use Rattle.node_timers.specs.Retransmission.{first, is_waited}
use Rattle.node_timers.proofs.retransmission.push_waited.Given as goal

abbrev pub invariant-loop-message : goal.invariant-loop-message
invariant-loop-message l =
    l.repeats.items ++ map first (filter (is_waited l.answered (state_of l.vector)) (drop l.message-index l.sent))
    ≡ l.fn.repeats.items ++ map first (filter (is_waited l.answered (state_of l.vector)) l.sent)
