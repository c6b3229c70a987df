pub mod Following
pub mod InStep
pub mod Leading
pub mod Links
pub mod Lossy
pub mod Steps
pub mod Takes
