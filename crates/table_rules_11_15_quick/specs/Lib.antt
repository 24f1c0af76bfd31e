-- What the functions of this crate ask and answer.
pub mod Keeping
pub mod Numbered
