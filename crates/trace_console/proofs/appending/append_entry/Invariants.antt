use Rattle.std.proofs.Common.{◌≡◌, take}
use Rattle.trace_console.proofs.appending.append_entry.Given as goal

abbrev pub invariant-loop-place : goal.invariant-loop-place
invariant-loop-place l = l.sent.items ≡ take l.place l.entry.sent
