pub mod KeptLemmas
pub mod KindLemmas
pub mod NumberedEvents
pub mod NumberedLemmas
pub mod PlainLemmas
