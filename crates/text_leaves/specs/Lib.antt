pub mod Stacks
pub mod Marks
