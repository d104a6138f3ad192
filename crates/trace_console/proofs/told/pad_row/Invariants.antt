use Rattle.std.proofs.Common.{◌≡◌, ◌≤◌, ◌-◌, ◌++◌, None, length}
use Rattle.std.specs.Prelude.{replicate}
use Rattle.trace_console.proofs.told.pad_row.Given as goal

abbrev pub invariant-loop-place : goal.invariant-loop-place
invariant-loop-place l = record {
  within : length l.fn.row ≤ l._place;
  padded : l.row ≡ l.fn.row ++ replicate (l._place - length l.fn.row) None;
}
