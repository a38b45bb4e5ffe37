pub mod StepLemmas
pub mod PartLemmas
pub mod FileLemmas
pub mod LinkLemmas
pub mod WriteLemmas
pub mod LeftLemmas
pub mod ReadLemmas
pub mod EndLemmas
mod SinkLemmas
