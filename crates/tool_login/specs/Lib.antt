pub mod Entry
pub mod Netrc
pub mod Private
pub mod Rows
pub mod Secret
pub mod Spot
