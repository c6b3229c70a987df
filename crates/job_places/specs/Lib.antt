pub mod Ends
pub mod Visits
pub mod Tallies
