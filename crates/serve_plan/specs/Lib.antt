pub mod ServePlan
