-- Laws of this crate.
pub mod EndLaws
pub mod ToldLaws
