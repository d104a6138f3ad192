-- What proofs of other crates may cite of this one: its other lemmas are its own.

-- Places of lists.
pub use Rattle.node_threads.proofs.Places.{place_of}
