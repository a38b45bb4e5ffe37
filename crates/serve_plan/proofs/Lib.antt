pub mod ServeLemmas
pub mod OnlineLemmas
