pub mod CountedLaws
pub mod NameLaws
