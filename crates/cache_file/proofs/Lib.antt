pub mod Bringing
pub mod Sparing
