pub mod streams
pub mod steps
