pub mod Taken
pub mod Same
