-- Laws of this crate.
pub mod LikeLaws
