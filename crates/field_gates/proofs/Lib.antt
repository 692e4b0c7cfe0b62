pub mod EffectLemmas
pub mod StepLemmas
