pub mod Driven
pub mod Steps
pub mod Words
