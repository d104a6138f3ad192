mod Parts
mod Mounts
mod Turned
mod Serves
mod AreaLaws
mod Ignores
mod Settling
mod Remounts
mod Nodes
mod Crashes
mod Forgets
mod Opens
mod AnyDisk
mod Readings
mod Compactions
mod Moves
pub mod PublicLaws
