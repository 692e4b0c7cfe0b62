pub mod Checks
pub mod Cycles
