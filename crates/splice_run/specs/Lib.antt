pub mod Log
pub mod Tokens
pub mod Frames
pub mod Single
pub mod Backwards
pub mod Runs
pub mod Solo
pub mod Openings
