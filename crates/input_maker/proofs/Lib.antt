pub mod ClientLemmas
pub mod MadeLemmas
pub mod ScheduleLemmas
pub mod FrameLemmas
pub mod FieldLemmas
pub mod TextLemmas
