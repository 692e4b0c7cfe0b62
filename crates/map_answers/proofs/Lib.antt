pub mod AnswerLemmas
pub mod ErrorLemmas
