pub mod PartLemmas
pub mod LineLemmas
pub mod TrackerLemmas
pub mod DueLemmas
pub mod NumberLemmas
pub mod RegularLemmas
pub mod TheoremLemmas
