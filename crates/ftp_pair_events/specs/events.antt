-- A world of two ends as code: the world that it is, the events that happen in it.
pub mod Shown
pub mod Calm
pub mod Happening
