pub mod ClientLemmas
pub mod KeepingLemmas
pub mod NumberLogs
pub mod SynEvents
pub mod SynLemmas
