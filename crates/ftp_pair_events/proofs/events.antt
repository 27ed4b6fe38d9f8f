-- Lemmas, each file about one part of an event.
pub mod Keeping
pub mod Filling
pub mod Taking
pub mod Busy
pub mod Beginning
pub mod Marking
pub mod Ports
pub mod Whole
pub mod Resting
pub mod Turning
