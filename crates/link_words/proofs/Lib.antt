pub mod Following
pub mod Ending
