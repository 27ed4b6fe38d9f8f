-- What a mirror decides: by answers, by what it knows of files, and by what it counts.
pub mod Answering
pub mod Facts
pub mod Fault
pub mod Prefetch
pub mod Queue
pub mod Replacing
pub mod Rows
pub mod Tally
pub mod Telling
pub mod Transfer
pub mod Walk
