-- The dialogues of both ends. The files are in the order in which they are to be read.
pub mod Stage
pub mod Dialogue
pub mod Operations
pub mod Login
pub mod Laws
pub mod Downloads
pub mod Fetches
pub mod Peeks
pub mod Uploads
