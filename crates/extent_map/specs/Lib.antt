pub mod Parts
pub mod Spaces
pub mod Holes
pub mod Chunks
pub mod Kept
