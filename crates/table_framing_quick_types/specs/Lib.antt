-- What the quick judges of a field and an argument answer.
pub mod Fine
