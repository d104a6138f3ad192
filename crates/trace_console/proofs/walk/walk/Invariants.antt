use Rattle.std.proofs.Common.{◌≡◌, length}
use Rattle.trace_check.specs.Followed.{before}
use Rattle.trace_console.specs.Turns.{AreFirst, AreSeats}
use Rattle.trace_console.proofs.walk.walk.Given as goal

abbrev pub invariant-loop-turn : goal.invariant-loop-turn
invariant-loop-turn l = record {
  count : length l.turns.items
      ≡ l.turn;
  first : AreFirst l.trace l.order l.turns.items;
  seats : AreSeats l.trace (before l.order l.turn) l.seats.items;
}
