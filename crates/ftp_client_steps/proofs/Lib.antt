pub mod CountLemmas
pub mod EntryLemmas
pub mod HearingLemmas
pub mod TriesLemmas
