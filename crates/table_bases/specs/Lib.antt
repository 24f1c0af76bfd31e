-- What the code answers.
pub mod Meanings
