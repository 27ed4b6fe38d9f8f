pub mod events
