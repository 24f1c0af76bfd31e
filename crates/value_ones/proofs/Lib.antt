-- Laws of this crate.
pub mod ToldLaws
pub mod PackLaws
pub mod OnesLaws
