-- The two ends together, what lies between them, and what is claimed. The files are in the order in which they are to be read.
pub mod World
pub mod Serving
pub mod Events
pub mod Outcome
pub mod Settling
pub mod Agreement
pub mod Claims
pub mod Still
pub mod Rows
