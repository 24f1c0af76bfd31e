-- All that a reader must believe of plans and walks, in the order of document 01.
pub mod Keys
pub mod Applies
pub mod Collecting
pub mod Planning
pub mod Selecting
pub mod PlanNumbers
pub mod LentPlan
pub mod WalkNumbers
pub mod WalkCalls
pub mod PlanCalls
