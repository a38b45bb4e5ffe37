pub mod WalkLemmas
pub mod SendLemmas
pub mod FileLemmas
pub mod GrowLemmas
pub mod StreamLemmas
pub mod RunLemmas
