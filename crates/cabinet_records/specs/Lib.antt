pub mod Replay
pub mod Recorded
pub mod Placed
pub mod Played
pub mod Shows
pub mod Aiming
