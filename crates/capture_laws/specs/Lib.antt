pub mod Captures
pub mod Ways
pub mod Standing
pub mod Laws
