pub mod Amount
pub mod AtOnce
pub mod ClientValues
pub mod Host
pub mod Numbers
pub mod Serving
