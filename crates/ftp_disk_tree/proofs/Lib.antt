pub mod PutLemmas
pub mod SinceLemmas
pub mod StrayLemmas
