-- Laws of this crate.
pub mod RefusedLaws
pub mod ResultLaws
