pub mod Back
pub mod Decoded
pub mod Drafts
pub mod Older
pub mod Sizes
