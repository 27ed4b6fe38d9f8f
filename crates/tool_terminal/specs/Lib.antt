pub mod Status
pub mod escaped
pub mod progress
pub mod verbosity
