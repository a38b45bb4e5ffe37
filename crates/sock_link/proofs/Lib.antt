pub mod StreamLemmas
pub mod RecordLemmas
pub mod HoldingLemmas
pub mod HistoryLemmas
