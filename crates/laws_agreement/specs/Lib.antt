-- Agreement in the world. The files are in the order in which they are to be read.
pub mod Cut
pub mod Follows
pub mod Laws
pub mod Rising
pub mod Stages
pub mod Crossing
pub mod PeekStages
pub mod Runs
pub mod Tried
pub mod Over
