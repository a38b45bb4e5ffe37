pub mod FieldLemmas
pub mod FrameLemmas
pub mod OptionLemmas
pub mod SumLemmas
