pub mod Guest
pub mod Load
pub mod Regular
pub mod Run
pub mod Script
