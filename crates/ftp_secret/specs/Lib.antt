pub mod Crypt
pub mod Hashing
pub mod Secret
pub mod Places
