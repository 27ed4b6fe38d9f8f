-- Lemmas: runs of events, worlds that are reached, what is known of them, and how settling ends.
pub mod Running
pub mod Reaching
pub mod Agreeing
pub mod Settling
pub mod Calming
