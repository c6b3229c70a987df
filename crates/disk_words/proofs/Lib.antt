pub mod Telling
pub mod Dropping
pub mod Picturing
pub mod Within
pub mod Passing
pub mod Running
pub mod Told
