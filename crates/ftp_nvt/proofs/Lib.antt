pub mod BufferLemmas
pub mod CutLemmas
pub mod EarLemmas
pub mod LineLemmas
pub mod TelnetLemmas
pub mod Theorems
pub mod FoldLemmas
pub mod ReaderLemmas
