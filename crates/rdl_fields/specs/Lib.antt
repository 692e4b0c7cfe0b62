pub mod Paths
pub mod Exprs
pub mod Parts
pub mod Fields
pub mod Registers
