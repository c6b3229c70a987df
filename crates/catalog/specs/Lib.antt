pub mod AgeLimits
pub mod Demo
pub mod FirstFault
pub mod LookUp
pub mod Names
pub mod Valid
pub mod Scopes
