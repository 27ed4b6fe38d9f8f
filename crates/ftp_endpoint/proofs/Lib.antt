pub mod OutcomeLemmas
pub mod NumberLemmas
pub mod EndpointLemmas
pub mod HostLemmas
pub mod ExtendedLemmas
pub mod JoinLemmas
pub mod WrittenLemmas
pub mod OnceLemmas
