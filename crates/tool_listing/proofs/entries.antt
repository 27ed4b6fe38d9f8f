pub mod LinesLemmas
pub mod TextLemmas
pub mod UnixLemmas
