pub mod FairLemmas
pub mod RoundLemmas
pub mod SharingLemmas
pub mod WaitLemmas
