pub mod Counted
pub mod Variables
