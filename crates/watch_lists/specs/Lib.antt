pub mod Trails
pub mod Scans
pub mod Watching
pub mod Looks
pub mod Visits
pub mod Watches
pub mod Building
pub mod FitLaws
