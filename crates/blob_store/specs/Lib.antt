pub mod Blob
