-- Laws of this crate, in the order in which they use each other.
pub mod OwnerLaws
pub mod SpreaderLaws
pub mod LinkLaws
pub mod TargetLaws
