pub mod Slots
pub mod Lines
pub mod Kept
pub mod Inside
pub mod Spelled
