pub mod Slot
pub mod Stored
pub mod Writing
