-- How much of a file is read where a limit stands.
pub mod Content
-- What a file is called while it is written.
pub mod Part
-- Which file a name leads to.
pub mod Identity
-- Where the octets of a file go.
pub mod Place
-- The note beside a part of a download.
pub mod Note
