-- Laws of this crate.
pub mod JudgedLaws
