mod Turns
mod Ran
