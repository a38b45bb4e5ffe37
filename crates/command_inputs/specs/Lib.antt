pub mod Reading
pub mod Texts
pub mod Turns
pub mod Client
pub mod Machine
pub mod Start
pub mod Laws
