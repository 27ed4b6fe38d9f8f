pub mod Kinds
pub mod Laws
pub mod Sessions
pub mod Transfers
