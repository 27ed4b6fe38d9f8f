pub mod Calling
pub mod Driven
pub mod Standing
