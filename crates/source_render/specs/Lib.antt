pub mod Cells
pub mod Renders
pub mod Shown
pub mod Told
