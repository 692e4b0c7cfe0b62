pub mod WalkNodes
pub mod PathLemmas
pub mod Leasts
