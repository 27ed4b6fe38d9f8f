pub mod Counts
pub mod EventLemmas
pub mod LineInFlight
pub mod ReadLemmas
