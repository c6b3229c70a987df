pub mod Pixmap
pub mod Reading
pub mod Tiles
