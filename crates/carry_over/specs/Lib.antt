pub mod Chosen
pub mod Copied
pub mod Taken
pub mod Planned
