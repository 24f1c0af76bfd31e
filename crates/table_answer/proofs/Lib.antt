pub mod TablesLaws
pub mod CheckedLaws
