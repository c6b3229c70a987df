pub mod Ascii
pub mod Texts
mod Choices
mod CoveredMetas
mod Members
mod MetaRanges
mod InOrder
mod Pieces
mod PlaceLists
mod Products
mod ThemeValues
mod WantedCounts
mod ZoomSteps
