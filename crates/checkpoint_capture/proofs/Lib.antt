pub mod PutLemmas
pub mod ListLemmas
pub mod StateLemmas
pub mod LineLemmas
pub mod HeldLemmas
pub mod PieceLemmas
