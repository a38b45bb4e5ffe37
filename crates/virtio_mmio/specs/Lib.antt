pub mod Device
pub mod Fields
pub mod Lending
pub mod Registers
