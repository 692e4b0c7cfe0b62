pub mod Orders
pub mod Settled
pub mod Cycles
