pub mod Location
pub mod Placing
pub mod Rows
pub mod UrlPlace
