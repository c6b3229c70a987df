pub mod Spelling
pub mod Fits
pub mod Reading
pub mod Old
