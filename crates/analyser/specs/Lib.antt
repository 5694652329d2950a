pub mod Desks
pub mod Service
