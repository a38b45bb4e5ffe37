mod WordLemmas
mod ReadLemmas
