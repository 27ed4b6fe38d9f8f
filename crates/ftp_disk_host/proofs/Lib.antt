pub mod CopyLemmas
pub mod LeftLemmas
