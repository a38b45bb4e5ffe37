pub mod ChainLemmas
pub mod PartLemmas
pub mod QueueLemmas
pub mod RingLemmas
