pub mod Alike
pub mod Sourcing
pub mod Excluding
pub mod Making
pub mod Faults
