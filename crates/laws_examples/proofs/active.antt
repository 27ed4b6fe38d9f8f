pub mod Playing
pub mod Moves
pub mod Ending
pub mod Calling
pub mod CallPlayed
pub mod Peeking
pub mod PeekPlayed
