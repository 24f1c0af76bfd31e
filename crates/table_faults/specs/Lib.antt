-- What the code answers.
pub mod Faults
