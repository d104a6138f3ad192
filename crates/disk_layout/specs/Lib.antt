pub mod Blank
pub mod Layout
