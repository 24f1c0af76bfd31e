-- What the functions of this crate ask.
pub mod Dues
