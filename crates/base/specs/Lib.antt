pub mod Causes
pub mod Readings
