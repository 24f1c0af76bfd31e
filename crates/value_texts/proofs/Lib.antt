-- The rows of a text that was read: where they lie, what type references they hold, what stands in a variables text, what in a definition.
pub mod Changes
pub mod Phases
pub mod Spanning
pub mod TokenSpans
pub mod TextSpans
pub mod Turns
pub mod Wrapping
pub mod ConstTexts
pub mod Stages
pub mod Sitting
pub mod Defining
