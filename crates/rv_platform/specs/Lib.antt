pub mod Bus
pub mod BusLaws
pub mod Clint
pub mod Devices
pub mod Memo
pub mod Settled
pub mod Step
pub mod Values
