pub mod SourceTransferLemmas
pub mod GivingLemmas
pub mod SinkTransferLemmas
pub mod ReadingLemmas
