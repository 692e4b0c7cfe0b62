pub mod Visits
pub mod Rounds
