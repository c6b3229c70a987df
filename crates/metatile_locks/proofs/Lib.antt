pub mod Lists
pub mod Runs
pub mod Blocks
pub mod Reaching
