-- Laws of the definitions.
pub mod EntryLaws
pub mod ChildLaws
pub mod DueLaws
