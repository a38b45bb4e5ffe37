pub mod SlotLemmas
pub mod SpelledLemmas
pub mod FittingLemmas
