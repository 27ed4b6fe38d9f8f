pub mod AheadLemmas
pub mod AskingLemmas
pub mod OrderLemmas
pub mod StatusLemmas
