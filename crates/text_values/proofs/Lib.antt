pub mod StackSteps
pub mod LeafLaws
pub mod VariableLaws
pub mod NestLaws
pub mod NestParts
pub mod EntryLaws
