pub mod Numbers
pub mod Floors
pub mod Divisors
pub mod Refusals
pub mod Left
