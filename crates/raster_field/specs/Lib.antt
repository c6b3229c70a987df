pub mod Picture
pub mod TileText
pub mod Blocks
pub mod Fields
pub mod Rasters
