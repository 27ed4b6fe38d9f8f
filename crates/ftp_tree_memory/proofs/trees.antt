pub mod ContentLemmas
pub mod MirrorLemmas
