pub mod Codes
pub mod Fault
pub mod ServerTransfer
