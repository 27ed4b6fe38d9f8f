-- What a server tells of the file, and what it is asked for.
pub mod Known
pub mod Questions
-- What the answers of a server say of a try of a transfer.
pub mod Retry
-- Which file a server has, and how a download of it stands.
pub mod Version
-- What follows a try of an upload, and of a download.
pub mod Steps
pub mod Tries
pub mod TryRows
-- How an upload ends, and what is told of an answer.
pub mod Uploading
pub mod Telling
-- What came of a download, and the last octets of an earlier run.
pub mod Received
pub mod Overlap
-- Which downloads are asked ahead of their turn.
pub mod Ahead
-- How many octets of a file are held in memory.
pub mod Held
