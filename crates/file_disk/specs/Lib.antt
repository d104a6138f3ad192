pub mod File
pub mod Label
pub mod Open
