pub mod GoesOn
pub mod NumberShown
pub mod PlaceLemmas
pub mod ReleaseEvents
pub mod ReleasedLogs
pub mod RightLemmas
pub mod SettleRight
pub mod SurviveRight
