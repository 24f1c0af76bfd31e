pub mod CountedLaws
pub mod DefaultLaws
pub mod HeadLaws
pub mod VariableLaws
pub mod VariablesLaws
