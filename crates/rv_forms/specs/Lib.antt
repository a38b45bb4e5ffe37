pub mod Forms
pub mod Mnemonics
pub mod Names
pub mod Ranges
