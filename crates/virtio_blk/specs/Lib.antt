pub mod Disk
pub mod Lending
pub mod Request
pub mod Serve
