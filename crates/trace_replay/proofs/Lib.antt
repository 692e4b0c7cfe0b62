mod ExpressionLemmas
mod FirstMap
mod JointLemmas
pub mod JointLaws
pub mod JointRuns
mod TraceLemmas
mod DigitLemmas
mod FieldLemmas
mod LineLemmas
mod FormLemmas
mod ReadLemmas
mod AllowedLemmas
mod RunLemmas
pub mod TraceTheorem
pub mod CutLemmas
