-- Laws of the definitions of the query rules, and worked examples. Nothing here need be believed.
pub mod Climbing
pub mod EnclosingLaws
pub mod PlaceLaws
pub mod BrokenAt
pub mod JudgedOne
pub mod InOrder
pub mod ReadOne
pub mod DocumentCallsOne
pub mod OpeningOne
pub mod WorkedRules
pub mod ExamplesRules
pub mod ExamplesReaching
pub mod ExamplesOpening
