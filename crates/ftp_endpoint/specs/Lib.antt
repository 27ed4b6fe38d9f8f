pub mod Number
pub mod Endpoint
pub mod Host
pub mod Written
