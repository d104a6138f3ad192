use Rattle.std.proofs.Common.{◌≡◌, ◌≤◌, ◌-◌, ◌++◌, [], length}
use Rattle.std.specs.Prelude.{replicate}
use Rattle.trace_console.proofs.told.pad_rows.Given as goal

abbrev pub invariant-loop-node : goal.invariant-loop-node
invariant-loop-node l = record {
  within : length l.fn.rows.items ≤ l._node;
  padded : l.rows.items ≡ l.fn.rows.items ++ replicate (l._node - length l.fn.rows.items) [];
}
