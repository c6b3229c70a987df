pub mod Decimals
pub mod Pieces
pub mod Addresses
pub mod Templates
pub mod Requests
