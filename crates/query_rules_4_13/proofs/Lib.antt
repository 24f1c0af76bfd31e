-- Laws of this crate.
pub mod RuleLaws
