pub mod HearLemmas
pub mod StepLemmas
pub mod CallLemmas
