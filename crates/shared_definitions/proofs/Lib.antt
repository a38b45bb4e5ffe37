pub mod ByteLemmas
pub mod FactLemmas
pub mod OverwriteLemmas
pub mod RangeLemmas
