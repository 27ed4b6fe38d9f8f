pub mod KeyLemmas
pub mod PathLemmas
pub mod TextLemmas
