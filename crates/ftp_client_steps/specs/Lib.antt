pub mod Comes
pub mod Hearing
pub mod Reader
pub mod Tries
pub mod Verdict
