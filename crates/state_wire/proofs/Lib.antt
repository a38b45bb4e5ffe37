pub mod BeginLemmas
mod LoadLemmas
mod RegularLemmas
