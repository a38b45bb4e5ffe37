pub mod ShownLemmas
pub mod WaitEvents
pub mod ToldLogs
pub mod SurvivorEvents
pub mod ShownLogs
