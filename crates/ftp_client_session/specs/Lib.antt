pub mod Calm
pub mod Client
pub mod Judged
pub mod Replies
pub mod Stored
