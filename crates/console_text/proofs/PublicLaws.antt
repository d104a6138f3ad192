-- What proofs of other crates may cite of this one: its other lemmas are its own.

-- What is handed to an output and a page, piece by piece.
pub use Rattle.console_text.proofs.Handing.{hands_more, page_grows, page_stays}
