pub mod Latches
pub mod Laws
pub mod Wires
