pub mod BootLemmas
pub mod KindLemmas
pub mod LawLemmas
pub mod PageLemmas
pub mod SectorLemmas
pub mod SentLemmas
pub mod StateLemmas
pub mod TurnLemmas
