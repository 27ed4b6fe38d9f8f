pub mod Converses
pub mod Dialogue
pub mod Exchange
pub mod Free
pub mod Laws
pub mod Short
