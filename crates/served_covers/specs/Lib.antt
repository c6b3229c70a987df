pub mod OfCatalogue
