pub mod Statements
pub mod Rows
pub mod Seen
pub mod Targets
pub mod Whole
