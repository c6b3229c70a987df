pub mod Imaging
pub mod Numbering
pub mod Packing
pub mod Ranging
pub mod Reached
pub mod Recorded
pub mod Sending
