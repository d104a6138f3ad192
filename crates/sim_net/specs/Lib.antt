pub mod Network
pub mod Changes
pub use Rattle.wire_msg.specs.Envelope
