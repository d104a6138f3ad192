mod Quorum
mod Epochs
mod Apart
mod Happens
mod Growing
mod Holding
mod Voting
