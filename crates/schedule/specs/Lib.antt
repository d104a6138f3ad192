pub mod Verbs
pub mod Fields
pub mod Acts
pub mod Text
pub mod Limits
pub mod Flaws
