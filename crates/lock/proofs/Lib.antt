pub mod Stations
pub mod OtherBoards
pub mod Runs
pub mod Local
pub mod Tables
