pub mod Stream
pub mod Unframed
pub mod Holding
pub mod Laws
