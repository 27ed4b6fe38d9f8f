pub mod Cues
pub mod Order
pub mod Making
pub mod Playing
