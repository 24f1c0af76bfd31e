-- Laws of this crate, in the order in which they use each other.
pub mod Nexts
pub mod Walks
pub mod Chained
pub mod Linking
pub mod ChainWalks
