pub mod AskedLaws
pub mod MeantLaws
