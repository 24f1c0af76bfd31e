pub mod SetLaws
pub mod FieldLaws
pub mod SpreadLaws
