pub mod CodeLemmas
pub mod ReplyLemmas
pub mod SteadyLemmas
