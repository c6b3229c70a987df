pub mod AtRest
pub mod Carrying
pub mod Keeping
pub mod Coming
pub mod Through
pub mod Telling
