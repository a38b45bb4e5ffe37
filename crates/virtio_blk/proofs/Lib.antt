pub mod SectorLemmas
pub mod ServeLemmas
