mod AmountLemmas
mod PortLemmas
