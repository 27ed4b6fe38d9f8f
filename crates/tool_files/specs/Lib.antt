pub mod local
