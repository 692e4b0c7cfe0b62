pub mod Shaping
pub mod Chains
