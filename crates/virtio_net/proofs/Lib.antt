pub mod NotifyLemmas
pub mod PortLemmas
pub mod SendLemmas
