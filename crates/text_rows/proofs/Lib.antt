-- How the rows of a text that was read lie: in order of start, each within its parent, and with a token at least.
pub mod Nested
pub mod Held
pub mod RowsLie
