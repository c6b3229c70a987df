pub mod Calls
pub mod Layout
pub mod Opened
pub mod Reading
pub mod Sound
pub mod Visiting
