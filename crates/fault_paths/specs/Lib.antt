pub mod Fields
pub mod Fitting
pub mod Paths
pub mod Unknown
