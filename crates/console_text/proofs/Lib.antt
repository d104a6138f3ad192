mod Consumed
mod Decimals
mod Digits
mod Handing
pub mod PublicLaws
