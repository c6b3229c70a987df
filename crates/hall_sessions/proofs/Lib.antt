pub mod Apart
pub mod Composed
pub mod Read
pub mod Unknown
pub mod Causing
pub mod Exchanging
