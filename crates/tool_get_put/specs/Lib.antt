-- What a pattern chooses.
pub mod Choosing
-- What `run` asks and reports, and its exit status.
pub mod Running
-- What a program at one place has done.
pub mod Fetching
-- What files are called that wait.
pub mod Waiting
