-- Laws of the readers of a table's parts.
pub mod BoundsLaws
pub mod FieldLaws
pub mod NameLaws
pub mod FindLaws
pub mod RefLaws
pub mod PackLaws
