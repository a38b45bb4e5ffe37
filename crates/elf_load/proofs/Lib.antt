pub mod CaseLemmas
pub mod LastSegmentLemmas
pub mod PlaceLemmas
pub mod TableLemmas
