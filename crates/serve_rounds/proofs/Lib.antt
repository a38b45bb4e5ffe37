pub mod WorkLemmas
pub mod LineLemmas
pub mod KeepLemmas
pub mod RoundLemmas
pub mod HearLemmas
pub mod TellLemmas
pub mod WholeLemmas
