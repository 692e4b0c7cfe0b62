pub mod NoBits
pub mod OutcomeLemmas
pub mod Inside
pub mod PartsLemmas
