pub mod downloads
pub mod uploads
