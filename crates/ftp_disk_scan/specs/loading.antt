-- What a look compared.
pub mod Compared
-- How a place of the disk differs from the tree.
pub mod Difference
-- What is held of a version of a file.
pub mod Held
-- Where a path lies on a disk.
pub mod Place
