pub mod NumberLaws
pub mod BreakLaws
pub mod PromiseLaws
