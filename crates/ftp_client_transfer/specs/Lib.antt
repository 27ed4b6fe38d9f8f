pub mod Flow
pub mod Heard
pub mod Listing
pub mod Octets
pub mod Stored
