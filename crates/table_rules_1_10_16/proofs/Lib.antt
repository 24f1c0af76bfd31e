pub mod RuleLaws
pub mod EntryLaws
