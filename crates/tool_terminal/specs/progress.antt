-- How far a transfer is, and sizes for people.
pub mod Measure
pub mod Pace
