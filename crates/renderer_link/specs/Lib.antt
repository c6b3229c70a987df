pub mod Exchanges
pub mod Pictures
