pub mod Digits
pub mod Heads
pub mod Tiles
