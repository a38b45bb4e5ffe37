pub mod ProgressFields
pub mod Parts
