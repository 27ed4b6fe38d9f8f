pub mod Cutting
pub mod Ending
pub mod Session
pub mod Sending
pub mod Keeping
pub mod Agreeing
