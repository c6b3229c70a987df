mod Comparisons
pub mod DemoValid
mod Distinct
pub mod Found
pub mod Passing
pub mod Validity
