pub mod Files
pub mod Events
pub mod Headline
