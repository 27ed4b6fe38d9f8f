pub mod Giving
pub mod Hearing
pub mod Ending
