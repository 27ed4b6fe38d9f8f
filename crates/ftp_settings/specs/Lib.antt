pub mod Marker
pub mod Representation
pub mod Rows
