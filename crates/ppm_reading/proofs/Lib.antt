pub mod Digits
pub mod Complete
pub mod Sound
