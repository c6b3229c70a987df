pub mod Metas
pub mod Pieces
pub mod Splices
pub mod Windows
pub mod Firsts
