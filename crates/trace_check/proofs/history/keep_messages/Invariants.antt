use Rattle.std.proofs.Common.{◌≡◌, ◌≤◌, ◌+◌, ◌++◌, length, take}
use Rattle.trace_check.proofs.history.keep_messages.Given as goal

abbrev pub invariant-loop-message : goal.invariant-loop-message
invariant-loop-message l = (l.messages.messages ≡ l.initial.messages.messages ++ take l.message-index l.sent)
    × (length l.sent ≤ l.messages.room + l.message-index)
