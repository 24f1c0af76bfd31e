-- What the code answers.
pub mod Walks
