-- What proofs of other crates may cite of this one: its other lemmas are its own.

-- What a mounting reads of a disk, and what it leaves.
pub use Rattle.node_store.proofs.Mountings.{sound_kept}
