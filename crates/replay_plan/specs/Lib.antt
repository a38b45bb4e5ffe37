pub mod LogPlan
pub mod Running
pub mod ReplayPlan
