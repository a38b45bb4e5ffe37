pub mod Lending
pub mod Notify
pub mod Port
pub mod Receive
pub mod Send
