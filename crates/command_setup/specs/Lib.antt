pub mod Setup
pub mod Held
pub mod Refusals
