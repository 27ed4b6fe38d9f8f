-- When the names beside a path are listed.
pub mod Parent
-- How what stands on a disk differs from what a tree has.
pub mod Finding
