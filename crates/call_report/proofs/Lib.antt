-- Laws that the proofs of what is told cite.
pub mod ReportLaws
