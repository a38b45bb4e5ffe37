pub mod KnownSteps
pub mod KnownLemmas
pub mod NumberSteps
pub mod NumberLinks
pub mod NumberLemmas
pub mod PauseLemmas
