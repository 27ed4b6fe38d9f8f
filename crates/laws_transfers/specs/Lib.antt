pub mod Actions
pub mod Ahead
pub mod Claims
pub mod Over
pub mod Quitting
pub mod Refusals
