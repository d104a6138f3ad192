-- What proofs of other crates may cite of this one: its other lemmas are its own.

-- The text of a trace, from its parts.
pub use Rattle.trace_text.proofs.Joined.{entry_written, no_messages, ordered_whole, there, whole_text}
-- The tokens of a trace are those of its JSON value.
pub use Rattle.trace_text.proofs.Printing.{drop_all, drop_get, messages_more}
