pub mod Applies
pub mod Ends
pub mod Files
pub mod Marks
pub mod Runs
