pub mod Lines
pub mod Reply
pub mod Reader
pub mod Values
