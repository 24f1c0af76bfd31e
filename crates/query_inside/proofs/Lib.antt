-- Laws of this crate, in the order in which they use each other.
pub mod KindLaws
pub mod ConditionLaws
pub mod EnclosedLaws
