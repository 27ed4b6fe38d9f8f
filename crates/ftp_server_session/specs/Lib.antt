pub mod Little
pub mod Line
pub mod Session
pub mod Giving
