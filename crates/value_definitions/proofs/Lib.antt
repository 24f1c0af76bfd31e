-- Laws of the definitions.
pub mod SeekLaws
pub mod DeclaredLaws
pub mod ReadLaws
