pub mod HistoryLemmas
