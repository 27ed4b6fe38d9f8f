-- Where the folder of a tree is.
pub mod Place
-- How the parts of files are called.
pub mod Left
-- The names in a directory.
pub mod Names
-- What is copied of a file.
pub mod Copied
-- Which moment a file has.
pub mod Moment
-- How an open file stands.
pub mod Standing
