pub mod EncodingLemmas
pub mod DecoderLemmas
pub mod HearLemmas
pub mod SettleLemmas
pub mod StepLemmas
pub mod WireLemmas
