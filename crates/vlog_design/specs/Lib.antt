pub mod Clocks
pub mod Refusals
pub mod Laws
