mod LinkStates
mod Coming
mod Counting
mod Finding
pub mod Happening
pub mod Lifting
mod Lying
pub mod Noting
pub mod Plainly
pub mod Straying
pub mod Turning
pub mod Ways
