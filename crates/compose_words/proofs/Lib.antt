pub mod Completing
pub mod Going
pub mod Leaving
pub mod Newness
