pub mod Blocks
pub mod Kept
pub mod Calls
pub mod Mounting
pub mod Laws
