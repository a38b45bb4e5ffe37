pub mod Node
pub mod Turns
pub mod Hearing
pub mod Survivor
pub mod Inside
pub mod Steps
pub mod Answers
