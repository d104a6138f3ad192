mod Blanks
pub mod PublicLaws
