-- What the quick judge of a table answers.
pub mod Usual
