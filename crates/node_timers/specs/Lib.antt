pub mod Jitter
pub mod Timers
pub mod Questions
pub mod Snapshots
pub mod Policy
pub mod Laws
pub mod Retransmission
pub mod Hearing
