-- Laws of this crate.
pub mod FilledLaws
pub mod ParsedLaws
