pub mod Side
pub mod Driving
