-- What the code answers.
pub mod Schema
