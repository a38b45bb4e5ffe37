pub mod CutLemmas
pub mod NoteLemmas
pub mod OrderLemmas
pub mod SurviveLemmas
