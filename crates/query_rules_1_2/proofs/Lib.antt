-- Laws of this crate.
pub mod OperationLaws
