pub mod Lines
pub mod Prompt
pub mod Shapes
pub mod Standing
