pub mod Blobs
pub mod Offsets
pub mod Steps
