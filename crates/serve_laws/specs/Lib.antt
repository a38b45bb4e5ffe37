pub mod Sending
pub mod Replaying
