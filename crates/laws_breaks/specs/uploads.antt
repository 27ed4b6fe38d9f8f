pub mod Late
pub mod Coming
pub mod ByActions
pub mod Actions
pub mod Claims
pub mod Over
