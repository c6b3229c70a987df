mod Made
pub mod Parts
