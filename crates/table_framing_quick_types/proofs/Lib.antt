-- Laws of the quick judges of a field and an argument.
pub mod FineLaws
