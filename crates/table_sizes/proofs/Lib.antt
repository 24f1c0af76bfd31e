-- Laws of the readers of a table's counts.
pub mod CountLaws
