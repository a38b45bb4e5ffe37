pub mod Untrimmed
pub mod Rest
pub mod SymbolOf
