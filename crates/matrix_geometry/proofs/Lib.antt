pub mod Products
pub mod Sums
pub mod Floors
pub mod Edges
pub mod Ranges
pub mod Parts
pub mod Made
