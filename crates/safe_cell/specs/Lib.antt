pub mod Answered
pub mod Body
pub mod Cell
pub mod Mounted
pub mod Mounting
pub mod Raising
pub mod Formatted
