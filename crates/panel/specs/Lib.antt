pub mod Panels
pub mod Readings
