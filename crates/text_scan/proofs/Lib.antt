-- Laws of strings, comments and words, over plain lists and numbers.
pub mod ReadLaws
pub mod WordLaws
pub mod ScanLaws
pub mod PartLaws
pub mod CharacterRuns
pub mod CharacterScan
pub mod RunScan
pub mod TokenLaws
