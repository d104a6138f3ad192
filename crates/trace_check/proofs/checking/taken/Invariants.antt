use Rattle.std.proofs.Common.{◌≡◌, length}
use Rattle.trace_check.specs.Searches.{Fits}
use Rattle.trace_check.proofs.checking.taken.Given as goal

abbrev pub invariant-loop-turn : goal.invariant-loop-turn
invariant-loop-turn l = Fits l.trace l.search × (length l.search.order.items ≡ l._turn)
