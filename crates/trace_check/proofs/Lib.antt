mod Contradictions
mod Furthest
mod Followed
mod Prefixes
mod Pushed
mod Leftovers
mod Bundles
mod Turning
mod Twins
mod Rests
mod Keyed
mod Lazily
mod Searches
mod Turns
mod KeptEntries
mod Brought
pub mod PublicLaws
