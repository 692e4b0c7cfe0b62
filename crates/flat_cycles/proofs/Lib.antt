pub mod VisitLemmas
pub mod WayLemmas
pub mod RoundLemmas
