pub mod AgreementLemmas
pub mod HonestLemmas
pub mod WorldRows
pub mod TriesLemmas
pub mod DoneLemmas
pub mod StillLemmas
pub mod PortLemmas
