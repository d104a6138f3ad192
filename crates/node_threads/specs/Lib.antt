pub mod Nodes
pub mod Wired
pub mod Ended
pub mod Links
pub mod Whole
pub mod Reasons
