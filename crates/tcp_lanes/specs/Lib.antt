pub mod Ends
pub mod Intakes
