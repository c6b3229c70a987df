pub mod Fit
pub mod Ready
