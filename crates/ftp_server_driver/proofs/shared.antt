pub mod Ending
pub mod Raising
pub mod Lowering
pub mod Onward
pub mod Whole
pub mod Lone
pub mod Slots
