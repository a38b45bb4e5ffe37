pub mod FrontLemmas
pub mod LeaveLemmas
pub mod FilesLemmas
mod StatusLemmas
