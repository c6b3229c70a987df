pub mod Numbering
pub mod Acting
pub mod Clauses
