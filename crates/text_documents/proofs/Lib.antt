pub mod WordLaws
pub mod BodyLaws
pub mod OperationLaws
pub mod FragmentLaws
pub mod DefinitionLaws
pub mod DocumentLaws
