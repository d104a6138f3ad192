pub mod Ends
pub mod Input
pub mod Output
pub mod Words
pub mod Reasons
pub mod Pages
