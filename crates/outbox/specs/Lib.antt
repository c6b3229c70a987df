pub mod Files
pub mod Opens
pub mod Packets
pub mod Posts
pub mod Writes
