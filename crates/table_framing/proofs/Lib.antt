-- Laws of the readers of a table's frame.
pub mod TagLaws
pub mod OpenLaws
pub mod WrongLaws
