pub mod Ends
pub mod Made
pub mod Opens
pub mod Promised
pub mod Words
pub mod Works
