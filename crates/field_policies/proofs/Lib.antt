pub mod BitLemmas
pub mod NumberBits
pub mod PolicyLemmas
