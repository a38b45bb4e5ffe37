pub mod TurnLemmas
pub mod LoneLemmas
pub mod HearingLemmas
