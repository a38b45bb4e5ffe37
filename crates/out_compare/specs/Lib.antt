pub mod Comparing
pub mod Noting
pub mod Look
pub mod Surviving
pub mod Held
