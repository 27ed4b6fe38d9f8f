pub mod Host
pub mod Timeouts
pub mod Waiting
