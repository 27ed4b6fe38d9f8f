pub mod Crowd
pub mod Fair
pub mod Order
pub mod Rounds
pub mod Sharing
pub mod Waits
