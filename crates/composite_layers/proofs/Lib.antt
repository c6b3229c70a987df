pub mod Chaining
pub mod Later
pub mod Composing
pub mod LoneParts
