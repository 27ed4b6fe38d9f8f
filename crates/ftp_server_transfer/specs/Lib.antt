pub mod Download
pub mod Lines
pub mod Receiving
pub mod Rest
pub mod Stored
pub mod TreeTransfer
pub mod Upload
