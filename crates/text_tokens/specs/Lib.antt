pub mod Skip
pub mod Packed
