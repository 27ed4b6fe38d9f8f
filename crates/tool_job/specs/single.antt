-- A single thing that is asked of a server, over a control connection of its own.
-- What is asked of whom, and until when.
pub mod Target
-- A download: its terms, and what is left of it.
pub mod Download
pub mod Leaving
-- What needs no data connection.
pub mod Parents
pub mod Simple
-- An upload under another name.
pub mod Upload
-- A listing that may be of a file.
pub mod Looking
