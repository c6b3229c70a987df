pub mod Fields
pub mod Heads
pub mod Chunks
pub mod Unchunking
pub mod Answers
pub mod Reading
