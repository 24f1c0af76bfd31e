-- What the code answers.
pub mod Sound
