-- Laws of this crate.
pub mod AcceptedLaws
pub mod MeantLaws
pub mod ContentLaws
pub mod HoldsLaws
pub mod InsideLaws
pub mod ReachLaws
pub mod WantsLaws
