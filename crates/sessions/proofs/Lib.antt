pub mod Awaited
pub mod UnderWay
pub mod Ending
