use Rattle.std.proofs.Common.{◌≡◌, ◌≤◌, ◌+◌, ◌++◌, length, take}
use Rattle.trace_check.proofs.history.keep_sent.Given as goal

abbrev pub invariant-loop-place : goal.invariant-loop-place
invariant-loop-place l = (l.messages.messages ≡ l.initial.messages.messages ++ take l.place l.sent)
    × (length l.sent ≤ l.messages.room + l.place)
