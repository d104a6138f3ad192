mod Entries
mod Voting
mod Asking
mod Holding
