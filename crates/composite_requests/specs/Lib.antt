pub mod Places
pub mod Routes
