pub mod Outside
pub mod Responses
pub mod Coming
pub mod Exchanges
pub mod SessionEnds
pub mod Sessions
