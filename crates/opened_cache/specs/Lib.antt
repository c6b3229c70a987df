pub mod Change
pub mod Crash
pub mod Opened
pub mod Texts
pub mod Saving
pub mod Passing
pub mod Inputs
