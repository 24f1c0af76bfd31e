-- What the readers of a table's frame answer.
pub mod Holders
pub mod Framing
