-- What proofs of other crates may cite of this one: its other lemmas are its own.

-- What was kept of an event is that event again, and stays so whatever is kept after it.
pub use Rattle.trace_check.proofs.KeptEntries.{get_same, get_again, part_same, part_again, part_length, event_same, event_again}
pub use Rattle.trace_check.proofs.KeptEntries.{event_stands, event_longer}
-- A check goes on: a node is stopped, waits, or takes its next entry.
pub use Rattle.trace_check.proofs.Searches.{twin_in}
-- The messages that were sent, once one more is put in.
pub use Rattle.trace_check.proofs.Keyed.{on_ok}
-- What one turn changes, and that verdicts decide.
pub use Rattle.trace_check.proofs.Turning.{turns}
-- What the calls of a check make of where it stands.
pub use Rattle.trace_check.proofs.Turns.{none_past}
-- The turns of an order, from the first to the last.
pub use Rattle.trace_check.proofs.Prefixes.{before_more, may_take}
-- An entry that stands in another trace behind the same state of its node, and what can come before it.
pub use Rattle.trace_check.proofs.Contradictions.{StandsAgain, stands_again, state_more, replays_to}
