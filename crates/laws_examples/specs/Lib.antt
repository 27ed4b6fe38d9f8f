pub mod transfers
pub mod active
pub mod downloads
pub mod uploads
