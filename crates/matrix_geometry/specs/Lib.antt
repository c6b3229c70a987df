pub mod Limits
pub mod Geometry
pub mod Away
pub mod Ranges
pub mod Making
pub mod Admits
