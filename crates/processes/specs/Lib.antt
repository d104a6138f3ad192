pub mod Files
pub mod Groups
pub mod Jobs
pub mod Processes
pub mod Printed
pub mod Answers
pub mod Happening
pub mod Sessions
