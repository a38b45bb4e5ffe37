pub mod Histories
pub mod SecondarySends
pub mod JoinedLogs
