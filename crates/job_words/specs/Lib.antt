pub mod Visit
pub mod Run
pub mod Input
pub mod Ends
pub mod Coming
