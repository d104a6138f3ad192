mod Words
mod IdLaws
mod ShareLaws
pub mod PublicLaws
