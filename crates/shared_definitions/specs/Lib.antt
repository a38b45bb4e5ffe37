pub mod Ascii
pub mod Begins
pub mod Bytes
pub mod FirstOf
pub mod Halves
pub mod Memory
pub mod Overwrite
