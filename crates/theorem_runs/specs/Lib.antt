pub mod Links
pub mod Runs
pub mod Laws
