pub mod CallLemmas
pub mod CountLemmas
pub mod OrderLemmas
pub mod PlayLemmas
