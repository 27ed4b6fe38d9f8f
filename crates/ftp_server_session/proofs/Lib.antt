pub mod LookLemmas
pub mod AskLemmas
pub mod RefusedLemmas
pub mod ActLemmas
pub mod GivenLemmas
