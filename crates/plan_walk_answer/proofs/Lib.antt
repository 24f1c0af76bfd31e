-- Laws of this crate.
pub mod WalkedLaws
pub mod Decided
pub mod SomeLaws
pub mod CollectsLaws
pub mod FirstLaws
