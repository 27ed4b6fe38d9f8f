pub mod LentLemmas
pub mod PlayLemmas
