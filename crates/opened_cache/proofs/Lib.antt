pub mod Lasting
pub mod Closing
pub mod Picturing
pub mod Unsaved
pub mod Within
pub mod Refusing
pub mod Refused
pub mod Passing
