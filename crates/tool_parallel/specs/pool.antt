-- What is prefetched, and which of its answers is given.
pub mod Ahead
-- What may be asked over one control connection.
pub mod Slot
