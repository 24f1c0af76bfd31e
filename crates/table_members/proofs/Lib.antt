-- Laws of this crate, in the order in which they use each other.
pub mod GatherLaws
pub mod MemberLaws
pub mod TagLaws
pub mod FindLaws
pub mod TypeLaws
pub mod PartLaws
