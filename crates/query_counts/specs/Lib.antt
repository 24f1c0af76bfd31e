-- What is true of each document that was read.
pub mod FewDefinitions
