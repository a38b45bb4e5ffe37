pub mod CallLemmas
pub mod RunLemmas
pub mod SurvivorLemmas
pub mod SinceLemmas
