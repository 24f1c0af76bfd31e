-- Laws of this crate, in the order in which they use each other.
pub mod KeepingLaws
pub mod NumberedLaws
