pub mod BoardLemmas
pub mod ExecuteLemmas
pub mod KindLemmas
pub mod MemoLemmas
pub mod StepLemmas
pub mod TimeLemmas
