pub mod Rule
pub mod Sound
pub mod Keeps
pub mod Seats
pub mod Steps
