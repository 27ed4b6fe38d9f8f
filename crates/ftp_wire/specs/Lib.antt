pub mod Encoding
pub mod Decoder
pub mod Hearing
pub mod Taking
pub mod Stored
