pub mod InductionLemmas
pub mod VerdictLemmas
