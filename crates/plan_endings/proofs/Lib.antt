-- Laws of this crate.
pub mod EndLaws
