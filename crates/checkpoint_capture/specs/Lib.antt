pub mod Trims
pub mod Sizes
