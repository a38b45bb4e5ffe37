pub mod Survivor
