pub mod Words
pub mod Documents
