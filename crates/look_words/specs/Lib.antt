pub mod Looks
pub mod Words
pub mod Texts
pub mod Checks
pub mod Lists
pub mod Listings
pub mod DryRuns
