pub mod Ends
pub mod Opened
pub mod Recipes
pub mod Served
pub mod Setup
