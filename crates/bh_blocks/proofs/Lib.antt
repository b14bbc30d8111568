pub mod Counting
pub mod Garbage
pub mod UseCalls
pub mod Loops
pub mod BodySteps
pub mod Drafting
pub mod Grouping
pub mod Storing
pub mod Cached
pub mod Candidates
pub mod Keeping
pub mod Removing
pub mod RowCalls
pub mod WindowSteps
pub mod PlanSteps
mod Vectors
