use Rattle.std.proofs.Common.{◌≡◌, ◌++◌, take}
use Rattle.trace_console.proofs.told.append_tellings.Given as goal

abbrev pub invariant-loop-place : goal.invariant-loop-place
invariant-loop-place l = l.row ≡ l.fn.row ++ take l.place l.more
