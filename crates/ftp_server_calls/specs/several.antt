-- Sessions over one tree. The files are in the order in which they are to be read.
pub mod Lent
pub mod Slots
pub mod Playing
