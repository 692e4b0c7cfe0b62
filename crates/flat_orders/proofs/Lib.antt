pub mod Settling
pub mod CycleLemmas
