pub mod MatchLemmas
pub mod PrefixLemmas
pub mod RestLemmas
pub mod SymbolLemmas
