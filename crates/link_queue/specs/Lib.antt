pub mod Weights
pub mod Hands
pub mod Accepted
