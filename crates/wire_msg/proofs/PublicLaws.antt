-- What proofs of other crates may cite of this one: its other lemmas are its own.

-- Lists of bytes.
pub use Rattle.wire_msg.proofs.Bytes.{AreBytes-from_index, IsBytes-from_all}
-- What the functions of a stream's bytes say is what the stream holds, and nothing else is.
pub use Rattle.wire_msg.proofs.Contents.{broken_at_once, partial_alone, read_behind}
-- Each number of a spelling is a byte, so the message of a list of numbers is the one that they spell.
pub use Rattle.wire_msg.proofs.Spelled.{IsBytes-spelling, message_is_spelled, spelled_is_message}
-- A body is known by its shape, and a kind by its number.
pub use Rattle.wire_msg.proofs.Shorts.{shaped, kind_again}
