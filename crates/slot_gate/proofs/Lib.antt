mod Slots
mod Calls
mod Stored
mod Rows
pub mod PublicLaws
