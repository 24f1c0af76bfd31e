-- Laws of this crate.
pub mod ListedLaws
pub mod FixedLaws
