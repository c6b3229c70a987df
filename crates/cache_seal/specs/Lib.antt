pub mod Ends
pub mod Fates
pub mod OfCache
pub mod Seals
pub mod Tiles
pub mod Unread
