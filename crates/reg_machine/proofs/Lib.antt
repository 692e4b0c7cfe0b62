pub mod BitMoves
pub mod NextLemmas
pub mod Shows
pub mod StartLemmas
pub mod StateLemmas
pub mod Views
