pub mod Tables
pub mod Ranges
pub mod Walks
pub mod Arms
