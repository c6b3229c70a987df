pub mod Above
pub mod Counts
pub mod Admitted
pub mod Replies
pub mod Acts
