mod NetrcLemmas
