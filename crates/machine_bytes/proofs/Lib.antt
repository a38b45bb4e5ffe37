pub mod AppendLemmas
pub mod LawLemmas
pub mod NumberLemmas
pub mod ReadLemmas
pub mod WriteLemmas
