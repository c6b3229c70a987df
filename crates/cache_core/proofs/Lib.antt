pub mod Truth
pub mod Beginnings
pub mod Cutting
pub mod Endings
pub mod Alike
pub mod Lasting
