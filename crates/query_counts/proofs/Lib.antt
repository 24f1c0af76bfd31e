-- How many fragments a document that was read has, and how many variables each operation.
pub mod Depths
pub mod Tallies
pub mod FewSums
pub mod Standing
pub mod FewRows
pub mod FewNumbers
