-- Laws of this crate.
pub mod DocumentLaws
pub mod BeyondLaws
