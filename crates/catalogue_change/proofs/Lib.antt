pub mod Comparing
pub mod Carrying
