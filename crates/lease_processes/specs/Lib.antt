pub mod Processes
pub mod Printed
pub mod Alone
