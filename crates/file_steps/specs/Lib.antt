pub mod Steps
pub mod Plans
pub mod Reading
pub mod ReadBytes
pub mod Status
pub mod Events
pub mod Ending
