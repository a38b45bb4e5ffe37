pub mod LineLemmas
pub mod FindLemmas
pub mod NumberLemmas
pub mod StartLemmas
pub mod SegmentLemmas
pub mod AgeLemmas
