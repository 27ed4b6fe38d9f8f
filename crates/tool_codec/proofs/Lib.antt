pub mod FactAnswering
pub mod FactTelling
pub mod Framing
mod Hearing
mod WireEnding
mod WireFollowing
