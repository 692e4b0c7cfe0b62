pub mod LatchLemmas
