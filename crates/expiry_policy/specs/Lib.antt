pub mod Victims
pub mod Orders
pub mod Entries
pub mod Tournaments
pub mod Layers
