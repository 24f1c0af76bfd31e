pub mod Onward
pub mod Words
pub mod ArgumentsLaws
pub mod DirectivesLaws
pub mod ConditionLaws
