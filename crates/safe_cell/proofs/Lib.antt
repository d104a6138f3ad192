mod ReadOnly
mod Bodies
mod Values
mod Raised
mod Mountings
mod Formats
mod Beginnings
pub mod PublicLaws
