use Rattle.std.proofs.Common.{◌≡◌, reverse}
use Rattle.trace_check.specs.Leftovers.{AreLeftBelow}
use Rattle.trace_check.proofs.Leftovers.{StandStill}
use Rattle.trace_check.proofs.leaving.leftovers.Given as goal

abbrev pub invariant-loop-number : goal.invariant-loop-number
invariant-loop-number l = AreLeftBelow l.trace (reverse l.search.order.items) l.number l.left.items
    × StandStill l.trace l.initial.search.seats.items l.search.seats.items (reverse l.search.order.items) l.number
    × (l.search.stopped ≡ l.initial.search.stopped)
