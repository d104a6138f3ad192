pub mod Names
pub mod Kept
pub mod Claims
pub mod Machine
pub mod Standing
