pub mod CoreLemmas
pub mod NodeLemmas
