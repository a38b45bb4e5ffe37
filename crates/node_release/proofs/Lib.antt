pub mod GateLemmas
pub mod FollowLemmas
