-- What every accepted document keeps to: what stands right below what in its rows, and what the rules say of it.
pub mod Cells
pub mod Nested
pub mod CellLaws
pub mod Bearing
pub mod Kinding
pub mod BelowRows
pub mod RowLists
pub mod Conditions
pub mod Choices
pub mod SaneLaws
