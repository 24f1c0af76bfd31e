pub mod Walking
pub mod ArgumentLaws
