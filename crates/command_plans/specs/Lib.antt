pub mod OneFile
pub mod Image
pub mod Replay
pub mod Steps
pub mod Planning
pub mod Splice
pub mod Solo
pub mod SoloEnds
