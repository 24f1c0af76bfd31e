-- What is true of each accepted document.
pub mod Sane
