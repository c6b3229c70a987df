pub mod Popped
pub mod Sharing
