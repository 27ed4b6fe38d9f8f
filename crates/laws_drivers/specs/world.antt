pub mod Ahead
pub mod Unaborted
