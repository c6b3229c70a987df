pub mod Made
pub mod Drill
pub mod Drilling
