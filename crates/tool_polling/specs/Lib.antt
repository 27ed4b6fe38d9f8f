pub mod Hangup
pub mod Limits
pub mod Looking
pub mod PassivePorts
pub mod Timeouts
pub mod TurnShare
pub mod Urgent
