-- What proofs of other crates may cite of this one: its other lemmas are its own.

-- The number that digits spell, and the digits that spell a number.
pub use Rattle.line_words.proofs.Decimals.{only}
