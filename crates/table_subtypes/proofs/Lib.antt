-- Laws of this crate.
pub mod SubLaws
