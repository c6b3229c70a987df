pub mod Tickets
pub mod Running
pub mod Reach
pub mod Calls
