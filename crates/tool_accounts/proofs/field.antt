pub mod ReadBack
pub mod Opening
pub mod Salting
pub mod Ending
