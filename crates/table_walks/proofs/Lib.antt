pub mod Walked
pub mod ArgumentLaws
