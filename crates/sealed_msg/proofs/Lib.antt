pub mod Cuts
pub mod Tags
pub mod Openings
