pub mod Fronts
pub mod Pauses
pub mod Splices
