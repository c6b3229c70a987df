pub mod Matching
pub mod Pairs
pub mod Paths
pub mod SecondPaths
