-- What proofs of other crates may cite of this one: its other lemmas are its own.

-- What a raise leaves, in each image.
pub use Rattle.safe_cell.proofs.Raised.{raised_way, raised_to_way}
-- Calls one after the other.
pub use Rattle.safe_cell.proofs.ReadOnly.{reads_on}
-- The value of a cell from those of its slots.
pub use Rattle.safe_cell.proofs.Values.{stands_for as value_stands_for, stands_same as value_stands_same}
