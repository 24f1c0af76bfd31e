-- The machine by which the definitions are computed, and a few worked examples. Nothing here need be believed.
-- Crate `paper_theory` has the laws of the definitions, crate `paper_samples` the other examples.
pub mod Bools
pub mod Machine
pub mod Longest
pub mod LexTables
pub mod Lexing
pub mod Tables
pub mod Going
pub mod Worked
pub mod Samples
