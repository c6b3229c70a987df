pub mod Tens
pub mod Padding
pub mod Numbers
pub mod Ports
pub mod PiecesRead
pub mod Braces
