-- Plans are well-formed.
pub mod RightSteps
pub mod Standing
pub mod Firsts
pub mod BlockLists
pub mod PlanFormed
pub mod BothCalls
