-- What an upload whose octets are read as they go has still to give.
pub mod SourceTransfer
-- What comes of a download, and whether more of it may follow.
pub mod SinkTransfer
-- The one text of a file, as an upload gives it.
pub mod Text
