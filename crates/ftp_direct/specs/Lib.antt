pub mod Direct
pub mod Laws
pub mod Listing
pub mod Look
pub mod Refusal
pub mod Rights
pub mod Run
