pub mod Ear
pub mod Link
pub mod Reply
pub mod RowWords
pub mod Limits
pub mod Octets
