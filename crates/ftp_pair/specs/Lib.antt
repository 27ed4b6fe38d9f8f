-- A world of two ends as code: what it shows, and what a session in it has come to.
pub mod Session
