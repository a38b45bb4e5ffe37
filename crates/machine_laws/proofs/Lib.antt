mod BootLemmas
mod BytesLemmas
mod FitLemmas
mod RegularLemmas
mod SizeLemmas
mod TurnLemmas
