-- Laws of this crate, in the order in which they use each other.
pub mod Zeros
pub mod BlockWrites
pub mod Numbers
