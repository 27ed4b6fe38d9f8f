-- Several sessions over one map. The files are in the order in which they are to be read.
pub mod Several
pub mod Swapping
pub mod Asked
pub mod Actions
pub mod Company
pub mod Small
