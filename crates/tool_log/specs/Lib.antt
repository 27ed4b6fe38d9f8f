pub mod Json
pub mod Lost
pub mod Rows
pub mod Xferlog
