pub mod ReaderLaws
pub mod Steps
pub mod Cells
pub mod Exits
