pub mod Blame
pub mod Known
pub mod Line
pub mod Lines
pub mod Reach
