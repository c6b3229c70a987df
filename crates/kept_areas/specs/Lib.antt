pub mod Areas
pub mod Bounds
pub mod Kept
