pub mod Change
pub mod Entries
pub mod Laws
pub mod Map
pub mod Rows
pub mod Sound
pub mod Text
pub mod Tree
