pub mod Acts
pub mod Arithmetic
pub mod Registers
pub mod Reach
pub mod Effect
pub mod Choices
pub mod Fields
pub mod Stores
