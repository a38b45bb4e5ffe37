pub mod Pair
pub mod Events
pub mod Steps
pub mod Inside
