-- Laws of this crate.
pub mod OpeningLaws
pub mod StopLaws
