pub mod CleanLemmas
pub mod EditLemmas
pub mod LawLemmas
pub mod OptionLemmas
pub mod SegmentLemmas
