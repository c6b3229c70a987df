pub mod Ends
pub mod OneLine
pub mod Orders
pub mod Steps
pub mod Texts
