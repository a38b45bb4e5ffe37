pub mod PlanLemmas
pub mod ImageLemmas
pub mod ReplayLemmas
pub mod SpliceLemmas
pub mod SoloLemmas
pub mod TextLemmas
pub mod CarryLemmas
pub mod RunEndLemmas
