pub mod NumberLemmas
pub mod WordLaws
pub mod CountLaws
pub mod InterruptLaws
