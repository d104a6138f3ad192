use Rattle.std.proofs.Common.{drop}
use Rattle.histories.specs.Lists.{Each}
use Rattle.trace_text.specs.Fits.{AreNamed}
use Rattle.trace_text.proofs.writable.are_named.Given as goal

abbrev pub invariant-loop-history : goal.invariant-loop-history
invariant-loop-history l = Each AreNamed (drop l.history-index l.histories) → Each AreNamed l.histories
