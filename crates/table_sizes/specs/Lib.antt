-- What the readers of a table's counts answer.
pub mod Counts
