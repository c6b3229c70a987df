pub mod Entries
pub mod Sum
