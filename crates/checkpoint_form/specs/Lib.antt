pub mod State
pub mod Inbox
pub mod Rows
pub mod Captured
