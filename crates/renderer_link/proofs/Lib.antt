pub mod Receiving
pub mod Refusing
