pub mod Releases
pub mod Shown
