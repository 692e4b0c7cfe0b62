pub mod Safety
pub mod Chains
pub mod Verdicts
