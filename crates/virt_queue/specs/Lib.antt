pub mod Chain
pub mod Parts
pub mod Queue
pub mod Ring
