mod LogLemmas
mod CountLemmas
mod LimitLemmas
mod OrderLemmas
mod PairLemmas
pub mod ByteTests
pub mod StartLemmas
pub mod PlanLemmas
