-- Laws of this crate.
pub mod SizeLaws
