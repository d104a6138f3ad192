mod Fronts
mod Passing
