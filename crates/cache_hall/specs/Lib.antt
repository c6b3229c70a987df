pub mod Turned
pub mod Gained
pub mod Gets
pub mod Refreshes
pub mod Opened
