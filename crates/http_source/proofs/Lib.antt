pub mod Entries
pub mod Filling
pub mod Named
pub mod Numerators
pub mod Templates
pub mod WholeTexts
pub mod Windows
