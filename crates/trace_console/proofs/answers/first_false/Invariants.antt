use Rattle.std.proofs.Common.{◌≡◌, ◌<◌, ℕ, true}
use Rattle.trace_check.specs.Followed.{before}
use Rattle.trace_console.specs.Answers.{turn_so}
use Rattle.trace_console.specs.Turns.{AreSeats}
use Rattle.trace_console.proofs.answers.first_false.Given as goal

abbrev pub invariant-loop-turn : goal.invariant-loop-turn
invariant-loop-turn l = record {
  old : AreSeats l.trace (before l.order l.turn) l.before.items;
  new : AreSeats l.trace (before l.order l.turn) l.behind.items;
  so : (k : ℕ) → k < l.turn → turn_so l.trace l.told l.order k ≡ true;
}
