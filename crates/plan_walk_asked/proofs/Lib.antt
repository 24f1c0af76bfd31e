-- Laws of this crate.
pub mod AskedLaws
