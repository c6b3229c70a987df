pub mod Counting
mod Cutting
mod Refreshing
