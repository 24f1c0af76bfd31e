-- Laws of this crate, in the order in which they use each other.
pub mod BuiltIns
pub mod Meanings
pub mod Entries
pub mod Objects
pub mod SubTyping
pub mod Recording
pub mod Fitting
pub mod SlimLaws
