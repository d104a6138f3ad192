mod Cuts
mod Changes
