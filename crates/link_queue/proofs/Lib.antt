pub mod Sums
pub mod Balance
pub mod Arrivals
