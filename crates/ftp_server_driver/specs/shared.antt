-- A drive whose server is lent a tree for some turns. The files are in the order in which they are to be read.
pub mod Lending
pub mod Turning
pub mod Among
pub mod Sharing
