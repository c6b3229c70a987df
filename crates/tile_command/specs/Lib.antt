pub mod Change
pub mod Memory
pub mod Kept
pub mod Job
pub mod Command
pub mod Causes
pub mod Exact
