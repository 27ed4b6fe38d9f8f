pub mod Ear
pub mod Event
pub mod Fold
pub mod Laws
pub mod LineBuffer
pub mod Lines
pub mod Telnet
