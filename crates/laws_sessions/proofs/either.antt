pub mod Concluding
pub mod Example
pub mod Peers
pub mod Ports
pub mod Replying
