pub mod Draws
pub mod Client
pub mod Made
pub mod Laws
