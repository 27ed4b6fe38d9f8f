mod CalendarLemmas
pub mod ComesBackLemmas
pub mod CutLemmas
pub mod DigitsLemmas
pub mod EntryLemmas
mod FactLemmas
pub mod LineLemmas
pub mod ListedLemmas
pub mod MomentLemmas
pub mod MomentValueLemmas
pub mod NameLemmas
pub mod NumberLemmas
pub mod Theorems
mod WritingLemmas
