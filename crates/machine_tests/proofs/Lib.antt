pub mod OneFieldLemmas
