-- What proofs of other crates may cite of this one.

-- Bytes that are all zeros.
pub use Rattle.disk_layout.proofs.Blanks.{blank}
