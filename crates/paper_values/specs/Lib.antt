-- All that a reader must believe of values and their coercion.
pub mod ValueNumbers
pub mod Written
pub mod Characters
pub mod NumberTokens
pub mod Signed
pub mod Values
pub mod Kinds
pub mod Coercion
pub mod CoercionRules
pub mod Encoding
pub mod RowValues
pub mod DocumentDues
pub mod CallRules
pub mod ValueCalls
-- for proofs and code, not to be believed
pub mod Computed
