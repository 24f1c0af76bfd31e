-- Laws of this crate.
pub mod CodedLaws
pub mod RuleLaws
