-- Laws of this crate, in the order in which they use each other.
pub mod Texts
pub mod Firsts
pub mod Keys
pub mod KeyLaws
pub mod Chained
pub mod Search
pub mod Linking
pub mod Filled
