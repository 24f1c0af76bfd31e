-- Laws of this crate, in the order in which they use each other.
pub mod RowLaws
pub mod RightLaws
pub mod TableLaws
pub mod FewLaws
