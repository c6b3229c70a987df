pub mod Together
pub mod Apart
pub mod Blobs
pub mod Counts
pub mod Restoring
