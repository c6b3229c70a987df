mod OneField
pub mod Seats
pub mod Notes
pub mod Rules
pub mod Moves
pub mod Held
