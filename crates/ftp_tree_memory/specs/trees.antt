pub mod Folder
pub mod Kept
