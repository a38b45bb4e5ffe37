mod OptionLemmas
