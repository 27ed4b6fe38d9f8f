-- Settling ends. The files are in the order in which they are to be read.
pub mod Steady
pub mod Turns
pub mod Laws
