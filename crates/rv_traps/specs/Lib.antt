pub mod Cause
pub mod CsrState
pub mod CsrTable
pub mod Trap
pub mod Fields
