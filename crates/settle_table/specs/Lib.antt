pub mod Table
pub mod Kept
pub mod Scenes
pub mod Needs
