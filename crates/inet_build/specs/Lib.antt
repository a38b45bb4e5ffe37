pub mod Edit
pub mod Laws
pub mod Options
pub mod Segment
