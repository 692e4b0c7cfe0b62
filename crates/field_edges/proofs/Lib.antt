pub mod GivenLemmas
pub mod LoopLemmas
pub mod MadeLemmas
pub mod SeesLaws
