pub mod Composite
pub mod Dimensions
pub mod Members
pub mod OfCatalogue
pub mod Outcome
pub mod Overlaid
pub mod Recipes
pub mod Books
