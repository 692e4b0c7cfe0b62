pub mod BestLemmas
pub mod CycleLemmas
