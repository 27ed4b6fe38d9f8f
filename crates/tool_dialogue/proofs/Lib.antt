pub mod AnswerLemmas
pub mod Conversing
pub mod FreeLemmas
pub mod OctetLemmas
pub mod OnceLemmas
pub mod ShortLemmas
pub mod TalkLemmas
pub mod UnopenedLemmas
