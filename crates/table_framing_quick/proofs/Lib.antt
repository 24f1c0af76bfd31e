-- Laws of the quick judge of a table.
pub mod UsualLaws
