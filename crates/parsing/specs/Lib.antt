pub mod Parser
pub mod Rule
pub mod Reads
