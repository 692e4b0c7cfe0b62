pub mod ListLemmas
pub mod GateLemmas
pub mod GraphLemmas
pub mod ValueLemmas
pub mod SharingLemmas
pub mod GrowthLemmas
pub mod NextLemmas
