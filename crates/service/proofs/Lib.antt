pub mod Reached
mod Says
pub mod Bits
pub mod Agrees
mod Follows
pub mod Answered
mod Served
mod Did
pub mod Sets
mod Order
pub mod Lawful
pub mod Grown
