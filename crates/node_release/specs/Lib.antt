pub mod Gated
pub mod Following
pub mod Causes
