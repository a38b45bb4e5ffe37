pub mod Boot
pub mod Guest
pub mod Kinds
pub mod Laws
pub mod Turn
