pub mod Calls
pub mod Starts
pub mod Ages
pub mod Progressing
pub mod Laws
