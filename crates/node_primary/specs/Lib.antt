pub mod Node
pub mod Inside
pub mod Steps
pub mod Answers
pub mod Calls
