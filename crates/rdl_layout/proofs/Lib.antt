pub mod Nested
pub mod Walks
pub mod Powers
