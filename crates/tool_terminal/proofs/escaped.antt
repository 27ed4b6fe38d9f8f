mod ShownLemmas
mod WritingLemmas
