-- Several things of one kind that are asked of a server one after another.
-- Which one is next.
pub mod Order
-- What is taken up, asked and given, and what follows an answer.
pub mod Decisions
-- How far a queue got, and its exit status.
pub mod QueueStatus
pub mod QueueRows
-- A file that is fetched, and one that is removed.
pub mod Fetching
pub mod Removing
