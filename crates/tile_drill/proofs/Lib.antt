pub mod Plain
pub mod Speaking
pub mod Making
pub mod Summing
