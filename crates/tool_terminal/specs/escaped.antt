-- How octets of a stranger are shown.
pub mod Shown
pub mod Rows
