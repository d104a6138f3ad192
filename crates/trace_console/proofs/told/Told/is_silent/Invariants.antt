use Rattle.std.proofs.Common.{◌≡◌, ◌<◌, ℕ, []}
use Rattle.trace_console.specs.Told.{row}
use Rattle.trace_console.proofs.told.Told.is_silent.Given as goal

abbrev pub invariant-loop-row : goal.invariant-loop-row
invariant-loop-row l = (n : ℕ) → n < l.row-index → row l.row-items n ≡ []
