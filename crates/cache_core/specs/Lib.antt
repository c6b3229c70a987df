pub mod Steps
pub mod Shown
pub mod Fits
pub mod Given
pub mod Begun
pub mod Advanced
pub mod Lasting
