pub mod Words
pub mod Addresses
pub mod Options
