mod TopLemmas
