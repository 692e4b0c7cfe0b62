pub mod ReadNodes
pub mod Growing
pub mod Places
pub mod WalkLemmas
pub mod Spreading
pub mod Matching
pub mod FlowNodes
