pub mod Complete
pub mod Ends
pub mod Fed
pub mod OneLine
pub mod Orders
pub mod Run
pub mod Texts
pub mod Words
