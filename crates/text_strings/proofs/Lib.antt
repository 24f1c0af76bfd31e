-- Laws of this crate.
pub mod StringLaws
