pub mod Tables
pub mod Applies
pub mod Starts
