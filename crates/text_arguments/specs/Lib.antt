pub mod Arguments
pub mod Passed
