pub mod Login
pub mod Kept
pub mod Path
pub mod Printable
