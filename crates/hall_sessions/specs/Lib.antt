pub mod Composites
pub mod Served
pub mod Requested
pub mod Exchanges
pub mod Caused
pub mod Sessions
