pub mod Carried
pub mod Logged
pub mod Passed
pub mod Sides
pub use Rattle.wire_msg.specs.Envelope
