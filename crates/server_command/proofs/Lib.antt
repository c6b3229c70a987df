pub mod Closing
pub mod Reciting
pub mod Unready
