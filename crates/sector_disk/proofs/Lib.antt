mod Arms
mod Runs
mod Shorts
mod Bytes
mod Undoing
mod Paddings
mod Halves
mod Parts
mod Calls
mod Crashed
pub mod PublicLaws
