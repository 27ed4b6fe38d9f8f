-- Sessions of several over one tree, as one of two drives. The files are in the order in which they are to be read.
pub mod Alone
pub mod Rooted
pub mod Served
