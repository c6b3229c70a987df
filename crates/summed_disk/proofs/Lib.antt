pub mod Keeping
pub mod Noticing
pub mod Words
