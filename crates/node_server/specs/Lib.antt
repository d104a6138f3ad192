pub mod Formatted
pub mod Served
