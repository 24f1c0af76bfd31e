-- Laws of this crate.
pub mod LevelLaws
pub mod GivenLaws
pub mod HoldingLaws
pub mod LackLaws
