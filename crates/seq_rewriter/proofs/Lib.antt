pub mod KeptLemmas
pub mod GivenLemmas
