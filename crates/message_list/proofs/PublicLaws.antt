-- What proofs of other crates may cite of this one: its other lemmas are its own.

-- The numbers of a message tell it.
pub use Rattle.message_list.proofs.Numbers.{one_message}
