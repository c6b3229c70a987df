pub mod Cut
pub mod OfCatalogue
pub mod Slicers
