pub mod Begun
pub mod Listening
pub mod Manner
pub mod Served
pub mod Sharing
