pub mod Words
pub mod ServeOptions
pub mod ServeWords
pub mod TopCalls
