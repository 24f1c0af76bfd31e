-- All that a reader must believe, in the order of document 01.
pub mod Numbers
pub mod Refusals
pub mod Grammar
pub mod Language
pub mod Lexical
pub mod Tokens
pub mod Rows
pub mod Sizes
pub mod Reading
pub mod Calls
