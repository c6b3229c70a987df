pub mod Sums
pub mod Counting
pub mod Balance
pub mod Holding
