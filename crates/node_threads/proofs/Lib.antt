mod Places
mod Facts
mod Runs
mod Links
mod Failing
pub mod PublicLaws
