pub mod Actions
pub mod Bare
pub mod Moments
pub mod Answers
pub mod Faults
pub mod Over
pub mod Quitting
