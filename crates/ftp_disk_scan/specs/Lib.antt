pub mod loading
pub mod rescan
