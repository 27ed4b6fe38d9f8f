pub mod Typed
pub mod Salt
pub mod Field
pub mod Opened
pub mod Making
