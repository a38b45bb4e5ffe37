pub mod EndLemmas
pub mod OutLemmas
pub mod PartLemmas
pub mod ShownLemmas
