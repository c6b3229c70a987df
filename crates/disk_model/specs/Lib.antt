pub mod Content
pub mod Crash
pub mod Images
pub mod Lawful
pub mod Memory
pub mod Moments
pub mod Replay
pub mod Writes
