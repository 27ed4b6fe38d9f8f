mod ChoosingLemmas
pub mod FetchingLemmas
mod HeardLemmas
