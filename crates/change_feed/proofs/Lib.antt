pub mod Following
pub mod Imaging
pub mod Lawful
pub mod Reached
pub mod Rows
pub mod Running
pub mod Spelling
