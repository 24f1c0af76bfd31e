-- Laws of this crate.
pub mod DefinitionLaws
pub mod KeptLaws
pub mod VariableLaws
pub mod WayLaws
pub mod LoopLaws
