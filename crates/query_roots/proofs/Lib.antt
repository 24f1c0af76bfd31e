-- Laws of this crate.
pub mod RootLaws
