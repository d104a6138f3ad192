use Rattle.std.proofs.Common.{drop}
use Rattle.trace_text.specs.Fits.{AreNamed}
use Rattle.trace_text.proofs.writable.is_named.Given as goal

abbrev pub invariant-loop-place : goal.invariant-loop-place
invariant-loop-place l = AreNamed (drop l.place l.history) → AreNamed l.history
