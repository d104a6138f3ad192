mod Names
mod Keeping
mod Standings
