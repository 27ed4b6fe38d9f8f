-- What a client of a pool does.
pub mod State
