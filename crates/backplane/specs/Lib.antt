pub mod Rule
pub mod Taking
pub mod Keeps
