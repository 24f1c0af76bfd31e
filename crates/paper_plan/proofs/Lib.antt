-- Laws of this crate: examples of 01 and of the readings, computed from the definitions; wrong definitions that differ; one result of each call.
pub mod ExamplesPlans
pub mod ExamplesBlocks
pub mod TrapsPlans
pub mod WalkCallsOne
