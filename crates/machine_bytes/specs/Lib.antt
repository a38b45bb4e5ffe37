pub mod Laws
pub mod Legal
pub mod Reading
pub mod Spelling
