mod Calls
mod Working
mod Together
mod Heard
mod Sums
mod Shared
mod Swapping
mod Joining
mod Counting
pub mod History
mod Pairing
mod Putting
mod Sources
