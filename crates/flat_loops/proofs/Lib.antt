pub mod SortLemmas
pub mod FeedLemmas
pub mod OrderLemmas
