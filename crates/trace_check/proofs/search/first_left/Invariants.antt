use Rattle.std.proofs.Common.{◌≡◌, ◌<◌, ℕ, List, length}
use Rattle.trace_check.specs.Orders.{history, taken}
use Rattle.trace_check.specs.Searches.{AreAtPlaces}
use Rattle.trace_check.proofs.search.first_left.Given as goal

abbrev pub invariant-loop-number : goal.invariant-loop-number
invariant-loop-number l = (past : List ℕ) → AreAtPlaces l.trace l.search.seats.items past → (n : ℕ) → n < l.number
    → taken n past ≡ length (history l.trace n)
