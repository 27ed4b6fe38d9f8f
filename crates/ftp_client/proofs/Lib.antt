pub mod HeardLemmas
pub mod GivenLemmas
pub mod FitLemmas
pub mod TypeLemmas
