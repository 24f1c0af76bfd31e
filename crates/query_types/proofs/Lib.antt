-- Laws of this crate.
pub mod CompositeLaws
