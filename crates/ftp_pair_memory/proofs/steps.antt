pub mod Coursing
pub mod Ending
pub mod Gathering
pub mod Quieting
pub mod Taken
