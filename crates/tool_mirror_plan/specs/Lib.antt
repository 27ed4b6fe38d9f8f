-- What a mirror does of a directory.
pub mod Actions
pub mod Plan
pub mod PlanRows
pub mod Index
