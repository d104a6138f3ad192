mod Decimals
mod Splitting
mod Pairs
mod Read
mod Letters
pub mod PublicLaws
