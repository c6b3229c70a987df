pub mod Answering
pub mod Bringing
pub mod Leading
pub mod Resting
