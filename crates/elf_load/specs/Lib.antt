pub mod Elf
pub mod LastSegment
pub mod Boot
