pub mod Reading
pub mod Outboxes
pub mod Counts
pub mod Turns
