pub mod Late
pub mod Actions
pub mod Claims
pub mod Over
