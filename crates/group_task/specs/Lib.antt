pub mod Group
pub mod Assignment
pub mod Ids
pub mod Others
pub mod Bits
pub mod Shares
