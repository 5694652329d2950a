pub mod Intervals
pub mod Latch
pub mod Scale
pub mod Keeps
