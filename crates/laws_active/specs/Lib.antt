pub mod Lead
pub mod Actions
pub mod Claims
pub mod Over
pub mod Quitting
pub mod Refusals
