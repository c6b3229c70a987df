pub mod Composes
pub mod OverAccess
pub mod Parts
