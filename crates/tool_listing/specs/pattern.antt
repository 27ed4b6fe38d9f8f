-- Patterns of names and paths.
pub mod Pattern
pub mod Chosen
pub mod PatternRows
