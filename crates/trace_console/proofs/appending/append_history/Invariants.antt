use Rattle.std.proofs.Common.{◌≡◌, ◌++◌, take}
use Rattle.trace_console.proofs.appending.append_history.Given as goal

abbrev pub invariant-loop-place : goal.invariant-loop-place
invariant-loop-place l = l.history ≡ l.fn.history ++ take l.place l.more
