pub mod WalkLemmas
pub mod StopLemmas
pub mod SolverLemmas
pub mod FewLemmas
pub mod AnswerLemmas
pub mod WatchLemmas
pub mod ShortLemmas
