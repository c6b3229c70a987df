pub mod Contains
pub mod Covers
pub mod Books
pub mod Purge
pub mod Slots
pub mod Index
pub mod Listed
