pub mod AckEvents
pub mod AckLemmas
pub mod AckSettle
pub mod AckSurvive
pub mod PromptLogs
