pub mod Carries
pub mod Gets
pub mod Twins
