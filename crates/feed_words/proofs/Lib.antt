pub mod Completing
pub mod Ending
pub mod Going
pub mod Opened
pub mod Reached
