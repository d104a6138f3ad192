mod Work
mod Due
mod Jitters
mod Units
