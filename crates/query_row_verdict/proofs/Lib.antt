-- Laws of this crate.
pub mod LeastLaws
pub mod RowLaws
