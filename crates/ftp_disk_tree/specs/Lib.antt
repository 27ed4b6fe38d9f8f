pub mod Asked
pub mod Note
pub mod Parked
pub mod Put
pub mod Since
pub mod Stray
