use Rattle.std.proofs.Common.{◌≡◌, take}
use Rattle.threads_console.proofs.tracing.messages_of.Given as goal

abbrev pub invariant-loop-place : goal.invariant-loop-place
invariant-loop-place l = l.messages.items ≡ take l.place l.sent
