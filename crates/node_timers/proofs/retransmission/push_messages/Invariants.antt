use Rattle.std.proofs.Common.{◌≡◌, ◌++◌, drop, map}
use Rattle.node_timers.specs.Retransmission.{message_of}
use Rattle.node_timers.proofs.retransmission.push_messages.Given as goal

abbrev pub invariant-loop-repeat : goal.invariant-loop-repeat
invariant-loop-repeat l = l.messages.items ++ map message_of (drop l.repeat-index l.repeats)
    ≡ l.fn.messages.items ++ map message_of l.repeats
