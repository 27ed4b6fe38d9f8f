pub mod entries
pub mod pattern
