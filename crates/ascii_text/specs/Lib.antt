pub mod Cuts
pub mod Hexadecimal
pub mod Numbers
