pub mod Texts
pub mod Covers
pub mod Ends
pub mod Runs
