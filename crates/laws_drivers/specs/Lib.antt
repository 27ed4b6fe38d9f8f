pub mod control
pub mod world
pub mod events
