pub mod PartLemmas
pub mod PieceLemmas
