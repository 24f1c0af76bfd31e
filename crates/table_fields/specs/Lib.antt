-- What the readers of a table's parts answer.
pub mod Fields
pub mod Wrappers
