pub mod Seating
pub mod Speaking
pub mod Stopping
pub mod Taking
pub mod Turning
