mod Behind
mod Counts
mod Delivered
