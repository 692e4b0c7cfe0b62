pub mod MachineLemmas
