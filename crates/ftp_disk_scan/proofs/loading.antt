pub mod ComparedLemmas
pub mod HeldLemmas
pub mod PlaceLemmas
