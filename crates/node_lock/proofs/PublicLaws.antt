-- What proofs of other crates may cite of this one: its other lemmas are its own.

-- A list that grew at its end.
pub use Rattle.trace_check.proofs.PublicLaws.{get_again, get_same}
-- A turn keeps what is always true.
pub use Rattle.node_lock.proofs.Keeping.{from_nothing}
-- What is written down of a turn is what came of it.
pub use Rattle.node_lock.proofs.Comings.{none_of_order, none_of_tick}
