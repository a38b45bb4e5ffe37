pub mod TextLemmas
pub mod LogLemmas
pub mod TurnLemmas
pub mod ClientLemmas
pub mod MachineLemmas
pub mod StartLemmas
