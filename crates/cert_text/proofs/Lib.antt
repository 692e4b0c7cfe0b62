pub mod CheckLemmas
pub mod CutLemmas
pub mod ReadLemmas
pub mod WordLemmas
pub mod WriteLemmas
pub mod WrittenLines
pub mod WrittenSteps
pub mod WrittenWords
