pub mod Breaking
pub mod Ending
pub mod Opening
pub mod ServerFirst
pub mod ClientFirst
pub mod Agreeing
