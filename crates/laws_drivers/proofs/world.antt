pub mod Served
pub mod Ahead
pub mod Hearing
pub mod Known
pub mod Running
pub mod Moves
pub mod Settling
pub mod Rising
