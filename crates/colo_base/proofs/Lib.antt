pub mod ClockLemmas
pub mod StateLemmas
