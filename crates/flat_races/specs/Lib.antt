pub mod Assigns
pub mod Races
pub mod Readers
