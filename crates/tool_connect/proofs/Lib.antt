mod AskingLemmas
mod ConversingLemmas
