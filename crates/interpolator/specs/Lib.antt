pub mod Counts
pub mod Gaps
pub mod Numbers
