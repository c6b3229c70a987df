pub mod Outcome
pub mod Members
pub mod Forms
pub mod Configs
pub mod Edges
pub mod Asked
pub mod Painted
