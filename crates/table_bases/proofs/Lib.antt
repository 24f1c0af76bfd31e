pub mod TestLaws
pub mod ImplementedLaws
